pub mod GrammarLaws
pub mod Holes
pub mod SetFiles
pub mod Walks
pub mod SparseEnds
pub mod SparseViews
pub mod SparseLaws
pub mod SparseCarried

pub mod Tests
pub mod Found
mod ReadLinks
mod Views
mod AttributeSizes
mod AnsweredLists
mod SizedTable
mod Supported
pub mod Written
pub mod Refusing
mod Asking
mod Comparisons
mod Walking
mod Entering
pub mod Extended
mod ReadDirs
pub mod NamedHeld
mod LookedUp
pub mod Stages
mod Creates
pub mod Inserts
mod ValuesTold
pub mod TreeSteps
pub mod Acting
pub mod Leaving
mod OfNodes
pub mod Peeling
mod LinkChecked
pub mod Going
mod GoingPast
mod RenameChecked
mod RemoveChecked

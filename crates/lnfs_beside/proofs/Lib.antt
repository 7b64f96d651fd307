pub mod SidesLaws
pub mod SidesCarried
pub mod Telling

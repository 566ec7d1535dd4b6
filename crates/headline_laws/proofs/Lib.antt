pub mod AnsweredLists
pub mod Examples
pub mod Fitting
pub mod Headline
pub mod Singles

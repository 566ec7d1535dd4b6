pub mod Reports
pub mod Stages
pub mod Forms
pub mod Texts

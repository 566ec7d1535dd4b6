pub mod Samples
pub mod EndExamples
pub mod ScriptExamples
pub mod WorkExamples
pub mod PairExamples

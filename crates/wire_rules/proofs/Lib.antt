pub mod Samples
pub mod FrameExamples
pub mod PayloadExamples
pub mod FaultExamples
pub mod StreamExamples
pub mod LineExamples

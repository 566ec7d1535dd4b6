pub mod Samples
pub mod HandshakeExamples
pub mod RoundExamples
pub mod WantExamples

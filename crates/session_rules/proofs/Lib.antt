mod Samples
mod SessionExamples

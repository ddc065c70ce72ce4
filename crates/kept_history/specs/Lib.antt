pub mod KeptRun

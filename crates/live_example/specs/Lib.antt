pub mod WorkedRun

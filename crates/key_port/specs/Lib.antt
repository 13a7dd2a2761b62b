pub mod KeyLines
pub mod KeyScripts
pub mod KeyEvents
pub mod KeyFaults
pub mod KeyCalls
pub mod KeyTasks
pub mod KeySides

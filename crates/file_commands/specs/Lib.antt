pub mod FileCommands

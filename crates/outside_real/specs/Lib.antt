pub mod Clock
pub mod Folder
pub mod FolderDisk
pub mod Passed
pub mod Port
pub mod Reading
pub mod Socket

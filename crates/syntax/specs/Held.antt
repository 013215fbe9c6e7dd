-- How the code holds what is defined beside this folder.
pub mod Kind

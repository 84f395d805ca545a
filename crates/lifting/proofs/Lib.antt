pub mod Seeing
pub mod Standing
pub mod Turning
pub mod Walking
pub mod Merging
pub mod Descending
pub mod Seeking

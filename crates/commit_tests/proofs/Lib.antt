pub mod StreamStart

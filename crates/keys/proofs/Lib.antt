pub mod Congruent
pub mod Keyed
pub mod Numbered
pub mod Numbers
pub mod Shifts
pub mod Widths

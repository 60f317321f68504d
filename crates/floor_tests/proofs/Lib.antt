-- That a small floor is one which calls accept, and that lines which were looked at may be put in and cross.
pub mod Sound
pub mod Meeting

-- Why a closed end and a covered checkpoint leave no walk.
pub mod NoWalk

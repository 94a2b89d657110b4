-- What a turn of the engine makes.
pub mod EngineTurn

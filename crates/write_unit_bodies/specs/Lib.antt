-- Watches of an image that give way, and a copy of the image in which their bodies are units.
pub mod UnitBodies
pub mod WatchFields

-- The rows that an entry is lent to work runs in: rows/specs/Scratch has them.
pub use Rattle.rows.specs.Scratch.{rooms_of, rooms_in, Scratch, scratch, full_rooms, cleared}

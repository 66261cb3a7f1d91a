-- All of it is for contracts inside the product alone: no promise of an entry and no statement for a reader speaks of it.
pub mod Tens

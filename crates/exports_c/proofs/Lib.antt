-- The contracts of the exports are those of the library.
mod Same

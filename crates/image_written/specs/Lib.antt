-- Images that are written (document 02, cards 11 to 13): types by their parts, tables of types, records and their bytes, the fixed form, an image without its watches, the generated load.
pub mod TypeParts
pub mod Table
pub mod Records
pub mod Written
pub mod Stripped
pub mod Generated

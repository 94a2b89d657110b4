-- What the functions of the layout are proved equal to: the tables of records as the definition's layout.
pub mod Tables

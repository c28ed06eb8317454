-- What a reading of no such kind gives (NoKind), and what each kind gives (EachKind).
pub mod NoKind
pub mod EachKind

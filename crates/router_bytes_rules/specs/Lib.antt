-- What a reader must believe of the calls on areas of bytes.
pub mod Bytes

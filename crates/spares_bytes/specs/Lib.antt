pub mod SparesBytes

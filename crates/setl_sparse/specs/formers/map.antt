pub mod SparseMap

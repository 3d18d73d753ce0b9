pub mod ModelValues

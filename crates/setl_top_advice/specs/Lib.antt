pub mod Put
pub mod Advised

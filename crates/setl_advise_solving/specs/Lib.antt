pub mod Advised
pub mod Worked

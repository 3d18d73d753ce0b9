-- The bytes of names and strings.
use Rattle.std.specs.Prelude.{◌≢◌, ℕ}

-- a byte of a text: any but byte 10
abbrev pub IsTextByte : ℕ → Type 0
IsTextByte b = b ≢ 10

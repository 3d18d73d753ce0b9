pub mod SoundModes

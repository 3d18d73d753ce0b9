pub mod BodyLemmas
pub mod Constructs
pub mod ExprKinds
pub mod FoundKinds
pub mod Links
pub mod Rounds
pub mod StmtRounds

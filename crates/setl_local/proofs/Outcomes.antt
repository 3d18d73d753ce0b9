-- What holds on both outcomes.
use Rattle.std.proofs.Common.{Result, Ok, Err, OnOk, OnErr}

pub on_both : {A E P Q R : Type 0} (r : Result A E) → (P → R) → (Q → R) → OnOk r P → OnErr r Q → R
on_both (Ok a) f g p q = f p
on_both (Err e) f g p q = g q

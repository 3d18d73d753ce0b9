-- What is told of a reader is as exact as what it tells, and is bytes.
use Rattle.std.proofs.Common.{◌≡◌, ℕ, Bool, true, false, ◌&&◌, cond, nat_lt, List, [], ◌∷◌, ◌++◌, take, Option, Some, None, refl, sym, ap, ◌∙◌, true≢false}
use Rattle.std.proofs.lemmas.Bool.{ltb-true}
use Rattle.std.proofs.lemmas.List.Folds.{list_all-append}
use Rattle.std.specs.Io.KnownBytes.{Consumes, Keeps, IsAtEnd}
use Rattle.setl_io.specs.Source.{AreBytes, TellsBytes, Reads}
use Rattle.setl_io.specs.declared.outside.Took.{Took}
use Rattle.setl_io.specs.declared.outside.Took.TheVariants.{Bytes, End, Failed}
use Rattle.setl_io_adapters.specs.Telling.{are_bytes, only_bytes}

first_holds : (a b : Bool) → (a && b) ≡ true → a ≡ true
first_holds true b h = refl
first_holds false b h = h

second_holds : (a b : Bool) → (a && b) ≡ true → b ≡ true
second_holds true b h = h
second_holds false b h = absurd (true≢false (sym h))

each_byte : (bs : List ℕ) → are_bytes bs ≡ true → AreBytes bs
each_byte [] h = tt
each_byte (b ∷ bs) h = (ltb-true b 256 (first_holds (nat_lt b 256) (are_bytes bs) h), each_byte bs (second_holds (nat_lt b 256) (are_bytes bs) h))

told_bytes : (a : Bool) (bs : List ℕ) → (a ≡ true → AreBytes bs) → TellsBytes (cond a (Some bs) None)
told_bytes true bs h = h refl
told_bytes false bs h = tt

pub tells_bytes : (left : Option (List ℕ)) → TellsBytes (only_bytes left)
tells_bytes None = tt
tells_bytes (Some bs) = told_bytes (are_bytes bs) bs (each_byte bs)

-- the rest of bytes is bytes, too
rest_consumed : (a b : Bool) (xs ys gave : List ℕ) → (a ≡ true → b ≡ true) → xs ≡ gave ++ ys → Consumes (cond a (Some xs) None) (cond b (Some ys) None) gave
rest_consumed false b xs ys gave so h = tt
rest_consumed true true xs ys gave so h = h
rest_consumed true false xs ys gave so h = absurd (true≢false (sym (so refl)))

consumes : (old new : Option (List ℕ)) (gave : List ℕ) → Consumes old new gave → Consumes (only_bytes old) (only_bytes new) gave
consumes None new gave h = tt
consumes (Some xs) None gave h = absurd h
consumes (Some xs) (Some ys) gave h =
    rest_consumed (are_bytes xs) (are_bytes ys) xs ys gave (λ e. second_holds (are_bytes gave) (are_bytes ys) (sym (list_all-append (λ b. nat_lt b 256) gave ys) ∙ sym (ap are_bytes h) ∙ e)) h

same_kept : (a b : Bool) (xs ys : List ℕ) → b ≡ a → ys ≡ xs → Keeps (cond a (Some xs) None) (cond b (Some ys) None)
same_kept false b xs ys same h = tt
same_kept true true xs ys same h = h
same_kept true false xs ys same h = absurd (true≢false (sym same))

keeps : (old new : Option (List ℕ)) → Keeps old new → Keeps (only_bytes old) (only_bytes new)
keeps None new h = tt
keeps (Some xs) None h = absurd h
keeps (Some xs) (Some ys) h = same_kept (are_bytes xs) (are_bytes ys) xs ys (ap are_bytes h) h

end_told : (a : Bool) (xs : List ℕ) → xs ≡ [] → IsAtEnd (cond a (Some xs) None)
end_told true xs h = h
end_told false xs h = tt

is_at_end : (left : Option (List ℕ)) → IsAtEnd left → IsAtEnd (only_bytes left)
is_at_end None h = tt
is_at_end (Some xs) h = end_told (are_bytes xs) xs h

pub reads : (into : List ℕ) (old new : Option (List ℕ)) (took : Took) → Reads into old new took → Reads into (only_bytes old) (only_bytes new) took
reads into old new (Bytes n) h = (h.0, h.1, consumes old new (take n into) h.2)
reads into old new End h = (is_at_end old h.0, keeps old new h.1)
reads into old new Failed h = keeps old new h

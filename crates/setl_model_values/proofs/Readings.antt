-- What is read of bytes is a value or `om`.
use Rattle.std.specs.Prelude.{◌≡◌, ℕ, suc, Bool, true, false, cond, nat_eq, List, [], ◌∷◌, ◌++◌, Option, Some, None, refl}
use Rattle.std.specs.List.{AllByRecursion}
use Rattle.std.proofs.Common.{arith}
use Rattle.std.proofs.lemmas.Bool.{eqb-true}
use Rattle.setl_value.specs.Datum.{Datum}
use Rattle.setl_value.specs.WellFormed.{IsTextByte, trim}
use Rattle.setl_set.specs.Laws.{Gathers}
use Rattle.setl_set.specs.Sets.{set_from}
use Rattle.setl_text.specs.Bytes.{is_digit, is_letter, Bracket, Brace, Square, behind}
use Rattle.setl_text.specs.Denoted.{present, collected, NotNewline, Single, natural, negative, word, string, om, Item, single, bracketed, Items, nothing, gap, member, Denoted, blank, item}
use Rattle.setl_text.specs.Laws.{ReadsExactly}
use Rattle.setl_text.specs.Reading.{Denotes}
use Rattle.setl_text.specs.Texts.{doubled}
use Rattle.setl_operators_laws.specs.SetValues.{Stands, set_stands, all_set_from}
use Rattle.setl_operators_laws.specs.TupleValues.{PartStands, tuple_stands, trim_is_trimmed, all_trim}
use Rattle.setl_operators_laws.specs.ValueLaws.{IsValueOrOm}
use Rattle.setl_model_values.specs.ModelValues.{AreBytes, ReadingsGiveValues}

bytes_behind : (test : ℕ → Bool) (bs : List ℕ) → AreBytes bs → AreBytes (behind test bs)
bytes_behind test [] a = tt
bytes_behind test (b ∷ bs) a = go (test b) (bytes_behind test bs a.1)
  where
    go : (t : Bool) → AreBytes (behind test bs) → AreBytes (cond t (behind test bs) (b ∷ bs))
    go true r = r
    go false r = a

-- a string in apostrophes, and the bytes behind it
string_bytes : (t rest : List ℕ) → AllByRecursion NotNewline t → AreBytes (doubled t ++ 39 ∷ rest) → AllByRecursion IsTextByte t × AreBytes rest
string_bytes [] rest n a = (tt, a.1)
string_bytes (b ∷ t) rest n a = go (nat_eq b 39) refl a (string_bytes t rest n.1)
  where
    go : (q : Bool) → nat_eq b 39 ≡ q → AreBytes (cond q (39 ∷ 39 ∷ doubled t) (b ∷ doubled t) ++ 39 ∷ rest) → (AreBytes (doubled t ++ 39 ∷ rest) → AllByRecursion IsTextByte t × AreBytes rest) → AllByRecursion IsTextByte (b ∷ t) × AreBytes rest
    go true e h r = let s = r h.1.1 in (((omega (arith, eqb-true b 39 e), n.0), s.0), s.1)
    go false e h r = let s = r h.1 in (((h.0, n.0), s.0), s.1)

single_value : (room : ℕ) {bs : List ℕ} {v : Option Datum} {rest : List ℕ} → Single bs v rest → AreBytes bs → PartStands room v × AreBytes rest
single_value room (natural b bs e wide) a = ((wide, omega arith), bytes_behind is_digit bs a.1)
single_value room (negative b bs e wide) a = ((wide, omega arith), bytes_behind is_digit bs a.1.1)
single_value room (word v b bs e s) a = ((tt, omega arith), bytes_behind is_letter bs a.1)
single_value room (string t rest lines end) a = let s = string_bytes t rest lines a.1 in ((s.0, omega arith), s.1)
single_value room (om rest) a = (tt, a.1)

all_present : (room : ℕ) (vs : List (Option Datum)) → AllByRecursion (PartStands room) vs → AllByRecursion (Stands room) (present vs)
all_present room [] a = tt
all_present room (None ∷ vs) a = all_present room vs a.1
all_present room (Some d ∷ vs) a = (a.0, all_present room vs a.1)

collected_stands : Gathers → (room : ℕ) (k : Bracket) (vs : List (Option Datum)) → AllByRecursion (PartStands room) vs → Stands (suc room) (collected k vs)
collected_stands g room Brace vs a = set_stands room (set_from (present vs)) (all_set_from (Stands room) (present vs) (all_present room vs a)) (g (present vs)).rising
collected_stands g room Square vs a = tuple_stands room (trim vs) (all_trim (PartStands room) vs a) (trim_is_trimmed vs)

mutual
  item_value : Gathers → {room : ℕ} {bs : List ℕ} {v : Option Datum} {rest : List ℕ} → Item room bs v rest → AreBytes bs → PartStands room v × AreBytes rest
  item_value g {room} (single s) a = single_value room s a
  item_value g (bracketed {room} k {bs} {vs} {rest} inner) a = let r = items_values g inner a.1 in (collected_stands g room k vs r.0, r.1.1)

  items_values : Gathers → {k : Bracket} {room : ℕ} {bs : List ℕ} {vs : List (Option Datum)} {rest : List ℕ} → Items k room bs vs rest → AreBytes bs → AllByRecursion (PartStands room) vs × AreBytes rest
  items_values g nothing a = (tt, a)
  items_values g (gap b e is) a = items_values g is a.1
  items_values g (member i m is) a = let r = item_value g i a in let s = items_values g is r.1 in ((r.0, s.0), s.1)

value_or_om : (v : Option Datum) → PartStands 500 v → IsValueOrOm v
value_or_om None h = tt
value_or_om (Some d) h = h

denoted_value : Gathers → {bs : List ℕ} {v : Option Datum} {rest : List ℕ} → Denoted bs v rest → AreBytes bs → IsValueOrOm v × AreBytes rest
denoted_value g (blank b e d) a = denoted_value g d a.1
denoted_value g {v = v} (item i) a = let r = item_value g i a in (value_or_om v r.0, r.1)

pub readings_give_values : ReadsExactly → Gathers → ReadingsGiveValues
readings_give_values reads g bs v rest a e = denoted_value g ((reads bs (Denotes v rest)).1 e) a

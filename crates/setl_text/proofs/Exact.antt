-- The computed reading is exactly what the relations say.
use Rattle.std.proofs.Common.{◌≡◌, ℕ, true, List, [], ◌∷◌, sym, subst, ◌∙◌, inl, inr}
use Rattle.std.proofs.lemmas.Bool.{cases_Bool}
use Rattle.setl_text.specs.Bytes.{is_blank, is_start}
use Rattle.setl_text.specs.Denoted.{blank, item, Fault, Form, Wide, Deep, ItemFails, after_blank, in_item, no_item}
use Rattle.setl_text.specs.Reading.{Reading, Denotes, AtEnd, NotForm, TooWide, TooDeep, read_denotation, failing}
use Rattle.setl_text.specs.Laws.{ReadsAs, ReadsExactly}
use Rattle.setl_text.proofs.Runs.{denoted_runs, blanks_run}
use Rattle.setl_text.proofs.Fails.{read_fails}
use Rattle.setl_text.proofs.Total.{Begins, reads, breaks, item_total}

computes : (bs : List ℕ) (r : Reading) → ReadsAs bs r → read_denotation bs ≡ r
computes bs (Denotes v rest) h = denoted_runs h
computes bs AtEnd h = blanks_run bs h
computes bs NotForm h = read_fails h
computes bs TooWide h = read_fails h
computes bs TooDeep h = read_fails h

behind_blank : (b : ℕ) (bs : List ℕ) → is_blank b ≡ true → (r : Reading) → ReadsAs bs r → ReadsAs (b ∷ bs) r
behind_blank b bs e (Denotes v rest) h = blank b e h
behind_blank b bs e AtEnd h = (e, h)
behind_blank b bs e NotForm h = after_blank b e h
behind_blank b bs e TooWide h = after_blank b e h
behind_blank b bs e TooDeep h = after_blank b e h

failed : (bs : List ℕ) (f : Fault) → ItemFails 500 bs f → ReadsAs bs (failing f)
failed bs Form h = in_item h
failed bs Wide h = in_item h
failed bs Deep h = in_item h

begun : (bs : List ℕ) → Begins 500 bs → (r : Reading) × ReadsAs bs r
begun bs (reads v rest one h) = (Denotes v rest, item one)
begun bs (breaks f one) = (failing f, failed bs f one)

read_total : (bs : List ℕ) → (r : Reading) × ReadsAs bs r
read_total [] = (AtEnd, tt)
read_total (b ∷ bs) =
    elim (cases_Bool (is_blank b)) [
      | inl e ↦ (let more = read_total bs in (more.0, behind_blank b bs e more.0 more.1))
      | inr e ↦ elim (cases_Bool (is_start b)) [
        | inl start ↦ begun (b ∷ bs) (item_total 500 b bs start)
        | inr none ↦ (NotForm, no_item b bs none e)
      ]
    ]

pub reads_exactly : ReadsExactly
reads_exactly bs r = (computes bs r, λ e. let found = read_total bs in subst (ReadsAs bs) (sym (computes bs found.0 found.1) ∙ e) found.1)

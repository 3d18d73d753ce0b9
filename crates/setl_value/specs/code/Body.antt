-- A set's body as contracts see it: its members in pages. Only `Members` and the definitions of places read its field.
use Rattle.std.specs.Prelude.{List, refl}
use Rattle.std.specs.Coded.{Coded, code_by, coded_list}
use Rattle.setl_value_pages.specs.Pages.{joined}
use Rattle.setl_value.specs.Datum.{Datum}
use Rattle.setl_value.specs.code.DatumCode.{coded_datum}

pub record Body : Type 0 where
  pub pages : List (List Datum)

abbrev pub coded_body : Coded Body
coded_body = code_by (List (List Datum)) (coded_list (coded_list coded_datum)) (λ b. b.pages) (λ ps. record { pages = ps }) (λ _. refl)

-- the strictly rising list of a set's members
abbrev pub Members : Body → List Datum
Members b = joined b.pages

-- The values of one header as one text (draft-cavage-http-signatures-12, section 2.3, item 4.1; RFC 9110, section 5.2).
use Rattle.std.specs.Prelude.{ℕ, Bool, ◌&&◌, ◌||◌, ◌==◌, nat_le, nat_lt, if◌then◌else◌, Ok, Err, List, [], ◌∷◌, ◌++◌, map, codes}
use Rattle.std.specs.List.{list_all}
use Rattle.std.specs.Str.{trim}
use Rattle.picky_http_request.specs.Answers.{Answer, not_text}

-- a byte of a text value: a tab, or 20 to 7E
abbrev pub is_text_byte : ℕ → Bool
is_text_byte b = b == 9 || (nat_le 32 b && nat_lt b 127)

-- the texts in a row, with the separator between each two
abbrev pub join_texts : List ℕ → List (List ℕ) → List ℕ
join_texts separator [] = []
join_texts separator (x ∷ []) = x
join_texts separator (x ∷ y ∷ xs) = x ++ (separator ++ join_texts separator (y ∷ xs))

-- the values, each trimmed, joined by a comma and a space, where all are texts
abbrev pub values_answer : List ℕ → List (List ℕ) → Answer
values_answer name values =
    if list_all (list_all is_text_byte) values then Ok (join_texts (codes ", ") (map trim values)) else Err (not_text name)

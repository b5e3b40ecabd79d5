-- The document that bytes are.
use Rattle.std.proofs.Common.{◌≡◌, ℕ, ◌≤◌, List, length, Err, refl, inl, inr}
use Rattle.std.proofs.lemmas.Bool.{cases_Bool, le-ltb}
use Rattle.std.specs.Str.{IsUtf8, is_utf8}
use Rattle.std.specs.Option.{ok_or}
use Rattle.std.proofs.lemmas.Str.{IsUtf8-from_is_utf8, is_utf8-from_IsUtf8}
use Rattle.toml.specs.Parse.{parse_document}
use Rattle.exb_toml_keys.specs.Faults.{not_toml}
use Rattle.exb_toml_keys.specs.Documents.{document}

pub document_of_text : (most : ℕ) (file text : List ℕ) → length file ≤ most → text ≡ file → IsUtf8 file → document most file ≡ ok_or (parse_document text) not_toml
unfolding document
document_of_text most file text short same is = rw (same, le-ltb most (length file) short, is_utf8-from_IsUtf8 file is) refl

pub document_of_no_text : (most : ℕ) (file : List ℕ) → length file ≤ most → ¬ (IsUtf8 file) → document most file ≡ Err not_toml
unfolding document
document_of_no_text most file short isnt =
    elim (cases_Bool (is_utf8 file)) [
      | inl is ↦ absurd (isnt (IsUtf8-from_is_utf8 file is))
      | inr isno ↦ rw (le-ltb most (length file) short, isno) refl
    ]

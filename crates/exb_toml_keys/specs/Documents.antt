-- The TOML document that a file is.
use Rattle.std.specs.Prelude.{ℕ, List, length, nat_lt, if◌then◌else◌, Result, Err}
use Rattle.std.specs.Option.{ok_or}
use Rattle.std.specs.Str.{is_utf8}
use Rattle.toml.specs.Data.{Members}
use Rattle.toml.specs.Parse.{parse_document}
use Rattle.exb_toml_keys.specs.Faults.{Refusal, not_toml, large}

-- the members of the document, where the file has at most that many bytes
unfoldable pub document : ℕ → List ℕ → Result Members Refusal
document most file =
    if nat_lt most (length file) then Err large
    else if is_utf8 file then ok_or (parse_document file) not_toml
    else Err not_toml

-- The words of the file of a net: names of bridges, and ends of wires.
use Rattle.std.specs.Prelude.{ℕ, Bool, ◌&&◌, ◌||◌, nat_le, if◌then◌else◌, List, length, Option, None, option_map, option_and_then}
use Rattle.std.specs.List.{list_all}
use Rattle.exb_toml_keys.specs.TextValues.{cut, port_of}
use Rattle.exb_net_file.specs.declared.end_names.EndName.{EndName}

-- a letter a to z, or a digit
abbrev pub is_letter : ℕ → Bool
is_letter c = (nat_le 97 c && nat_le c 122) || (nat_le 48 c && nat_le c 57)

-- 1 to 32 of them
unfoldable pub is_name : List ℕ → Bool
is_name text = nat_le 1 (length text) && nat_le (length text) 32 && list_all is_letter text

-- a bridge's name and a port's
abbrev pub end_between : List ℕ × List ℕ → Option EndName
end_between parts = if is_name parts.0 then option_map (λ p. record { bridge = parts.0; port = p })
    (port_of parts.1) else None

-- NAME:PORT
unfoldable pub end_of : List ℕ → Option EndName
end_of text = option_and_then end_between (cut 58 text)

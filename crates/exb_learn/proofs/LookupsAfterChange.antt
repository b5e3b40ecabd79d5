-- Look-ups after a change, and the number of entries.
use Rattle.std.proofs.Common.{◌≡◌, ℕ, suc, ◌+◌, Bool, true, false, cond, not, ◌&&◌, ◌||◌, ◌==◌, nat_lt, length, List, [], ◌∷◌, map, refl, sym, ap, ◌∙◌}
use Rattle.std.specs.Prelude.{Option, Some, None, is_some, bytes_eq}
use Rattle.std.specs.List.{list_any, IsDistinct, AllByRecursion}
use Rattle.std.specs.Map.{keys_of, lookup}
use Rattle.exb_model.specs.Learning.{kept_unless}
use Rattle.exb_learn.specs.declared.key.StationKey.{StationKey}
use Rattle.exb_learn.specs.declared.entries.DynamicEntry.{DynamicEntry}
use Rattle.exb_learn.specs.Stations.{same, is_live, is_elsewhere, kept_if, Keeps, Changes}
use Rattle.exb_learn.specs.Calls.{See, Tick, Forget, after_call, if_live, port_of}
use Rattle.exb_learn.specs.Counts.{Key, is_key, EachOnce, HasLive}
use Rattle.exb_learn.specs.Entries.{Entries, place_of, station, table_of}

place_of-live : (now ageing : ℕ) (o : Option DynamicEntry) → place_of (kept_if (is_live now ageing) o) ≡ if_live now ageing (place_of o)
place_of-live now ageing None = refl
place_of-live now ageing (Some p) = by_test (is_live now ageing p)
  where
    by_test : (b : Bool) → place_of (cond b (Some p) None) ≡ cond b (Some (p.port, p.at)) None
    by_test true = refl
    by_test false = refl

place_of-other : (q : ℕ) (o : Option DynamicEntry) → place_of (kept_if (is_elsewhere q) o) ≡ kept_unless (λ r. r == q) (place_of o)
place_of-other q None = refl
place_of-other q (Some p) = by_test (p.port == q)
  where
    by_test : (b : Bool) → place_of (cond (not b) (Some p) None) ≡ cond b None (Some (p.port, p.at))
    by_test true = refl
    by_test false = refl

-- ---- the tables
module _ (l : Entries) where
  -- the table with other entries, another clock and another room
  abbrev pub with_entries : List (StationKey × DynamicEntry) → ℕ → ℕ → Entries
  with_entries es clock spare = record { entries = es; clock = clock; ageing = l.ageing; spare = spare }

  seen_changed : (es : List (StationKey × DynamicEntry)) (clock spare : ℕ) (f : ℕ → List ℕ → Option (ℕ × ℕ)) → ((v : ℕ) (m : List ℕ) → place_of (lookup (same (station v m)) es) ≡ f v m) →
      table_of (with_entries es clock spare) ≡ record (table_of l) { clock = clock; seen = f }
  unfolding table_of
  seen_changed es clock spare f h = λ i. record { ageing = l.ageing; clock = clock; seen = λ v m. h v m i }

  pub table-see : (es : List (StationKey × DynamicEntry)) (spare : ℕ) (s : StationKey) (p : DynamicEntry) → nat_lt 0 l.ageing ≡ true → p.at ≡ l.clock →
      Changes l.entries es s (Some p) →
      table_of (with_entries es l.clock spare) ≡ after_call (See s.vid s.address.0 p.port) (table_of l)
  unfolding table_of
  table-see es spare s p ages now updates =
      seen_changed es l.clock spare (λ w n. cond (nat_lt 0 l.ageing && (s.vid == w && bytes_eq s.address.0 n)) (Some (p.port, l.clock)) (place_of (lookup (same (station w n)) l.entries)))
      (λ v m.
      ap place_of (updates (station v m)) ∙ moved (same s (station v m)) (lookup (same (station v m)) l.entries)
      ∙ ap (λ (at : ℕ). cond (same s (station v m)) (Some (p.port, at)) (place_of (lookup (same (station v m)) l.entries))) now
      ∙ ap (λ b. cond (b && same s (station v m)) (Some (p.port, l.clock)) (place_of (lookup (same (station v m)) l.entries))) (sym ages))
    where
      moved : (b : Bool) (o : Option DynamicEntry) → place_of (cond b (Some p) o) ≡ cond b (Some (p.port, p.at)) (place_of o)
      moved true o = refl
      moved false o = refl

  -- with ageing time 0 nothing is seen
  pub table-unseen : (v : ℕ) (m : List ℕ) (p : ℕ) → nat_lt 0 l.ageing ≡ false → table_of l ≡ after_call (See v m p) (table_of l)
  unfolding table_of
  table-unseen v m p ages = λ i. record {
    ageing = l.ageing;
    clock = l.clock;
    seen = λ w n. ap (λ b. cond (b && (v == w && bytes_eq m n)) (Some (p, l.clock)) (place_of (lookup (same (station w n)) l.entries))) (sym ages) i;
  }

  pub table-tick : (es : List (StationKey × DynamicEntry)) (clock spare seconds : ℕ) → clock ≡ l.clock + seconds → Keeps (is_live clock l.ageing) l.entries es →
      table_of (with_entries es clock spare) ≡ after_call (Tick seconds) (table_of l)
  unfolding table_of
  table-tick es clock spare seconds now keeps =
      seen_changed es clock spare (λ w n. if_live clock l.ageing (place_of (lookup (same (station w n)) l.entries)))
      (λ v m. ap place_of (keeps (station v m)) ∙ place_of-live clock l.ageing (lookup (same (station v m)) l.entries))
      ∙ ap (λ (x : ℕ). record (table_of l) { clock = x; seen = λ w n. if_live x l.ageing (place_of (lookup (same (station w n)) l.entries)) }) now

  pub table-forget : (es : List (StationKey × DynamicEntry)) (spare p : ℕ) → Keeps (is_elsewhere p) l.entries es →
      table_of (with_entries es l.clock spare) ≡ after_call (Forget p) (table_of l)
  unfolding table_of
  table-forget es spare p keeps =
      seen_changed es l.clock spare (λ w n. kept_unless (λ q. q == p) (place_of (lookup (same (station w n)) l.entries)))
      (λ v m. ap place_of (keeps (station v m)) ∙ place_of-other p (lookup (same (station v m)) l.entries))

-- ---- their number
abbrev key_of : StationKey × DynamicEntry → Key
key_of e = (e.0.vid, e.0.address.0)

any-keys : (v : ℕ) (m : List ℕ) (es : List (StationKey × DynamicEntry)) → list_any (is_key v m) (map key_of es) ≡ is_some (port_of (place_of (lookup (same (station v m)) es)))
any-keys v m [] = refl
any-keys v m (e ∷ es) = by_test (same (station v m) e.0) (any-keys v m es)
  where
    by_test : (b : Bool) → list_any (is_key v m) (map key_of es) ≡ is_some (port_of (place_of (lookup (same (station v m)) es))) →
        (b || list_any (is_key v m) (map key_of es)) ≡ is_some (port_of (place_of (cond b (Some e.1) (lookup (same (station v m)) es))))
    by_test true rest = refl
    by_test false rest = rest

none-keys : (k : StationKey) (es : List (StationKey × DynamicEntry)) → AllByRecursion (λ y. same k y ≡ false) (keys_of es) → list_any (is_key k.vid k.address.0) (map key_of es) ≡ false
none-keys k [] none = refl
none-keys k (e ∷ es) none = rw none.0 (none-keys k es none.1)

once-keys : (es : List (StationKey × DynamicEntry)) → IsDistinct same (keys_of es) → EachOnce (map key_of es)
unfolding IsDistinct
once-keys [] once = tt
once-keys (e ∷ es) once = (none-keys e.0 es once.0, once-keys es once.1)

length-keys : (es : List (StationKey × DynamicEntry)) → length (map key_of es) ≡ length es
length-keys [] = refl
length-keys (e ∷ es) = ap suc (length-keys es)

pub has_live : (l : Entries) (n : ℕ) → IsDistinct same (keys_of l.entries) → n ≡ length l.entries → HasLive (table_of l) n
unfolding table_of
has_live l n once is = record {
  keys = map key_of l.entries;
  number = length-keys l.entries ∙ sym is;
  once = once-keys l.entries once;
  answers = λ v m. any-keys v m l.entries;
}

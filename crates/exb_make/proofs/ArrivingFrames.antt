-- What holds of each frame that arrives.
use Rattle.std.proofs.Common.{◌≡◌, ◌∙◌, ℕ, zero, suc, ◌+◌, ◌*◌, ◌/◌, ◌^◌, ◌<◌, ◌≤◌, ◌==◌, Bool, true, false, cond, if◌then◌else◌, List, [], ◌∷◌, ◌++◌, length, get_or, filter, map, All, refl, sym, ap, arith, length-append}
use Rattle.std.specs.List.{range_with_len}
use Rattle.std.proofs.lemmas.List.FromFn.{length-range_with_len}
use Rattle.std.proofs.lemmas.Bool.{eqb-true, false≢true}
use Rattle.std.proofs.lemmas.List.Elements.{All-nil, All-cons}
use Rattle.exb_model.specs.Ports.{below}
use Rattle.exb_model.specs.Tree.{Shape, is_external}
use Rattle.rand_pcg.specs.Lcg.{Lcg}
use Rattle.exb_make.specs.Draws.{drawn, generator_of}
use Rattle.exb_make.specs.GeneratedTree.{site, site_ports, port_at}
use Rattle.exb_make.specs.DrawOrder.{Frame, station, broadcast, content, vlan_tag, time_of, destination, body, frame, frames, memberships, pvids, orders}
use Rattle.exb_make.specs.GeneratedInputs.{records_at, all_drawn, made, ArrivesAtExternals}
use Rattle.exb_make.specs.GeneratedParts.{IsPlayable}
use Rattle.exb_make.proofs.GeneratedTree.{length-ports, shape-is}
use Rattle.exb_make.proofs.DrawLoops.{each-all, length-each}
use Rattle.exb_make.proofs.Validity.{all_external}

-- ---- lengths
abbrev either : Bool → List ℕ × Lcg → List ℕ × Lcg → List ℕ × Lcg
either b p q = if b then p else q

destination-length : (g : Lcg) → length (destination g).0 ≡ 6
unfolding destination
destination-length g = by_test ((drawn 4 g).0 == 0) (drawn 4 g).1 (drawn 46 (drawn 4 g).1)
  where
    by_test : (b : Bool) (h : Lcg) (d : ℕ × Lcg) → length (either b (broadcast, h) (station d.0, d.1)).0 ≡ 6
    by_test true h d = refl
    by_test false h d = refl

body-length : (g : Lcg) → length (body g).0 ≤ 52
unfolding body
body-length g = by_test ((drawn 2 g).0 == 0) (drawn 2 g).1 (drawn 4 (drawn 2 g).1)
  where
    by_test : (b : Bool) (h : Lcg) (d : ℕ × Lcg) → length (either b (content, h) (vlan_tag (1 + d.0) ++ content, d.1)).0 ≤ 52
    by_test true h d = omega arith
    by_test false h d = omega arith

-- ---- times
time-whole : (i : ℕ) → time_of i / 1_000 * 1_000 ≡ time_of i
time-whole i = omega arith

time-low : (i : ℕ) → i < 1000 → time_of i < 2 ^ 32 * 1_000_000_000
time-low i h = omega arith

playable : (i : ℕ) (g : Lcg) → i < 1000 → All IsPlayable (frame i g).0
unfolding frame
playable i g h =
    let port = drawn 46 g in
    let to = destination port.1 in
    let rest = body to.1 in
    let a = destination-length port.1 in
    let b = body-length to.1 in
    let c = length-append (to.0 ++ station port.0) rest.0 in
    let d = length-append to.0 (station port.0) in
    All-cons IsPlayable _ []
    (record { moment = time-low i h; whole = time-whole i; bytes = omega (arith, a, b, c, d) })
    (All-nil IsPlayable)

range-low : (a n : ℕ) → All (λ k. k < a + n) (range_with_len a n)
range-low a zero = All-nil (λ k. k < a + 0)
range-low a (suc n) =
    All-cons (λ k. k < a + suc n) a (range_with_len (a + 1) n) (omega arith) (λ k d l. let h : get_or (range_with_len (a + 1) n) k d < a + 1 + n = range-low (a + 1) n k d l in omega (arith, h))

pub all_playable : (g : Lcg) → All IsPlayable (all_drawn g).frames
unfolding all_drawn frames below
all_playable g = each-all frame IsPlayable (λ i. i < 1000) playable (range_with_len 0 1000) (range-low 0 1000) (orders (pvids (memberships g).1).1).1

-- ---- ports
low-draw : (n : ℕ) (g : Lcg) → 0 < n → (drawn n g).0 < n
unfolding drawn
low-draw n g some = omega arith

-- a drawn port is external
pub external_at : (g : Lcg) → is_external site (port_at (drawn 46 g).0) ≡ true
external_at g =
    let n = (drawn 46 g).0 in
    let low : n < length site_ports = (let l = low-draw 46 g (omega arith) in omega (arith, l, length-ports)) in
    all_external n 0 low

arrives : (i : ℕ) (g : Lcg) → Unit {0} → All (λ f. is_external site f.port ≡ true) (frame i g).0
unfolding frame
arrives i g _ = All-cons (λ (f : Frame). is_external site f.port ≡ true) _ [] (external_at g) (All-nil (λ (f : Frame). is_external site f.port ≡ true))

all_arrive : (g : Lcg) → All (λ f. is_external site f.port ≡ true) (all_drawn g).frames
unfolding all_drawn frames
all_arrive g = each-all frame (λ f. is_external site f.port ≡ true) (λ i. Unit {0}) arrives (below 1000) (λ k d l. tt) (orders (pvids (memberships g).1).1).1

none_there : (fs : List Frame) (q : ℕ) → All (λ f. is_external site f.port ≡ true) fs → is_external site q ≡ false → filter (λ f. f.port == q) fs ≡ []
none_there [] q all no_external = refl
none_there (f ∷ fs) q all no_external = by_test (none_there fs q (λ k d l. all (suc k) d (omega arith)) no_external) (f.port == q) refl
  where
    by_test : filter (λ x. x.port == q) fs ≡ [] → (b : Bool) → (f.port == q) ≡ b → cond b (f ∷ filter (λ x. x.port == q) fs) (filter (λ x. x.port == q) fs) ≡ []
    by_test rest true e = absurd (false≢true (sym no_external ∙ (ap (is_external site) (sym (eqb-true f.port q e)) ∙ all 0 f (omega arith))))
    by_test rest false e = rest

pub arrives_external : ArrivesAtExternals
unfolding made records_at
arrives_external number q no_external =
    let g = generator_of number in
    let here : is_external site q ≡ false = ap (λ (t : Shape). is_external t q) (sym (shape-is (all_drawn g).start)) ∙ no_external in
    ap (map (λ f. f.record_there)) (none_there (all_drawn g).frames q (all_arrive g) here)

-- ---- there are 1,000
frame-one : (i : ℕ) (g : Lcg) → length (frame i g).0 ≡ 1
unfolding frame
frame-one i g = refl

pub length-frames : (g : Lcg) → length (all_drawn g).frames ≡ 1000
unfolding all_drawn frames below
length-frames g = length-each frame frame-one (range_with_len 0 1000) (orders (pvids (memberships g).1).1).1 ∙ length-range_with_len 0 1000

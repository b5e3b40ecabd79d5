-- What a shelf in memory did, under the names that the trait uses.
use Rattle.std.proofs.Common.{◌≡◌, ℕ, List, [], ◌++◌, drop, length, take, sym, subst, arith}
use Rattle.std.proofs.lemmas.Grind.{common_steps}
use Rattle.std.specs.Prelude.{◌↔◌}
use Rattle.exb_shelf.specs.Files.{Files, Puts, bytes_of}

take_whole : (xs : List ℕ) → take (length xs) xs ≡ xs
take_whole xs = grind (arith, common_steps)

-- the same put, under another spelling of the name, of the whole of xs
pub put_whole : (f g : Files) (n m xs : List ℕ) → m ≡ n → Puts f g n (bytes_of (f n) ++ xs) → Puts f g m (bytes_of (f m) ++ take (length xs) xs)
put_whole f g n m xs e p =
    let q : Puts f g n (bytes_of (f n) ++ take (length xs) xs) = rw (take_whole xs) p in
    subst (λ (k : List ℕ). Puts f g k (bytes_of (f k) ++ take (length xs) xs)) (sym e) q

-- the same end, under another spelling of the bytes and of the place
pub end_as : (n p q : ℕ) (xs ys : List ℕ) → xs ≡ ys → p ≡ q → ((n ≡ 0) ↔ (drop p xs ≡ [])) → ((n ≡ 0) ↔ (drop q ys ≡ []))
end_as n p q xs ys e h w =
    subst (λ (zs : List ℕ). (n ≡ 0) ↔ (drop q zs ≡ [])) e (subst (λ (k : ℕ). (n ≡ 0) ↔ (drop k xs ≡ [])) h w)

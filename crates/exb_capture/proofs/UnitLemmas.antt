-- Times below 2^32 seconds, in any resolution, are such in nanoseconds.
use Rattle.std.proofs.Common.{◌≡◌, ◌<◌, ◌≤◌, ◌-◌, ◌*◌, ◌^◌, ℕ, zero, suc, sym, subst, arith}

pub in_time : (d t : ℕ) → d ≤ 9 → t < 2 ^ 32 * 10 ^ d → t * 10 ^ (9 - d) < 4_294_967_296_000_000_000
in_time zero t h e = let k : t < 4_294_967_296 = e in let r : t * 1_000_000_000 < 4_294_967_296_000_000_000 = omega (arith, k) in r
in_time (suc zero) t h e = let k : t < 42_949_672_960 = e in let r : t * 100_000_000 < 4_294_967_296_000_000_000 = omega (arith, k) in r
in_time (suc (suc zero)) t h e = let k : t < 429_496_729_600 = e in let r : t * 10_000_000 < 4_294_967_296_000_000_000 = omega (arith, k) in r
in_time (suc (suc (suc zero))) t h e = let k : t < 4_294_967_296_000 = e in let r : t * 1_000_000 < 4_294_967_296_000_000_000 = omega (arith, k) in r
in_time (suc (suc (suc (suc zero)))) t h e = let k : t < 42_949_672_960_000 = e in let r : t * 100_000 < 4_294_967_296_000_000_000 = omega (arith, k) in r
in_time (suc (suc (suc (suc (suc zero))))) t h e = let k : t < 429_496_729_600_000 = e in let r : t * 10_000 < 4_294_967_296_000_000_000 = omega (arith, k) in r
in_time (suc (suc (suc (suc (suc (suc zero)))))) t h e = let k : t < 4_294_967_296_000_000 = e in let r : t * 1_000 < 4_294_967_296_000_000_000 = omega (arith, k) in r
in_time (suc (suc (suc (suc (suc (suc (suc zero))))))) t h e = let k : t < 42_949_672_960_000_000 = e in let r : t * 100 < 4_294_967_296_000_000_000 = omega (arith, k) in r
in_time (suc (suc (suc (suc (suc (suc (suc (suc zero)))))))) t h e = let k : t < 429_496_729_600_000_000 = e in let r : t * 10 < 4_294_967_296_000_000_000 = omega (arith, k) in r
in_time (suc (suc (suc (suc (suc (suc (suc (suc (suc zero))))))))) t h e = let k : t < 4_294_967_296_000_000_000 = e in let r : t * 1 < 4_294_967_296_000_000_000 = omega (arith, k) in r
in_time (suc (suc (suc (suc (suc (suc (suc (suc (suc (suc d)))))))))) t h e = absurd (omega arith)

-- the same, with so many units in a second and so many nanoseconds in a unit
pub packet_in_time : (d t u n : ℕ) → u ≡ 10 ^ d → n ≡ 10 ^ (9 - d) → d ≤ 9 → t < 4_294_967_296 * u → t * n < 4_294_967_296_000_000_000
packet_in_time d t u n units unit few early = subst (λ x. t * x < 4_294_967_296_000_000_000) (sym unit) (in_time d t few (subst (λ x. t < 4_294_967_296 * x) units early))

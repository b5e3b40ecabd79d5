-- The pieces of a line.
use Rattle.std.proofs.Common.{◌≡◌, ℕ, List, ◌++◌, append_assoc}

pub count_pieces : (a b c d e f g h i j k l : List ℕ)
    → a ++ (b ++ (c ++ (d ++ (e ++ (f ++ (g ++ (h ++ (i ++ (j ++ (k ++ l)))))))))) ≡ a ++ (b ++ c ++ d ++ e ++ f ++ g ++ h ++ i ++ j ++ k ++ l)
count_pieces a b c d e f g h i j k l = simp append_assoc

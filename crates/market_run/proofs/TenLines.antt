-- Ten lines, one behind another.
use Rattle.std.proofs.Common.{ℕ, ◌≡◌, ◌++◌, List, []}

pub ten_lines : {l1 l2 l3 l4 l5 l6 l7 l8 l9 l10 m1 m2 m3 m4 m5 m6 m7 m8 m9 m10 t0 t1 t2 t3 t4 t5 t6 t7 t8 t9 t10 : List ℕ} → t0 ≡ [] → t1 ≡ t0 ++ l1
    → t2 ≡ t1 ++ l2 → t3 ≡ t2 ++ l3 → t4 ≡ t3 ++ l4 → t5 ≡ t4 ++ l5 → t6 ≡ t5 ++ l6 → t7 ≡ t6 ++ l7 → t8 ≡ t7 ++ l8 → t9 ≡ t8 ++ l9 → t10 ≡ t9 ++ l10
    → l1 ≡ m1 → l2 ≡ m2 → l3 ≡ m3 → l4 ≡ m4 → l5 ≡ m5 → l6 ≡ m6 → l7 ≡ m7 → l8 ≡ m8 → l9 ≡ m9 → l10 ≡ m10
    → t10 ≡ m1 ++ m2 ++ m3 ++ m4 ++ m5 ++ m6 ++ m7 ++ m8 ++ m9 ++ m10
ten_lines e0 e1 e2 e3 e4 e5 e6 e7 e8 e9 e10 s1 s2 s3 s4 s5 s6 s7 s8 s9 s10 = cc

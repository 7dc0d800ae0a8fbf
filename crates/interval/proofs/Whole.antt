-- Products of integers: laws and orders.
use Rattle.std.proofs.Common.{◌≡◌, ℕ, zero, suc, ◌+◌, ◌*◌, ◌≤◌, ℤ, pos, negsuc, ◌+ℤ◌, ◌*ℤ◌, neg_ℤ, nat_abs, ◌≤ℤ◌, ap, mul_assoc, add-mul, mul-le-mul, mul-le-mul_right, mul-add, arith}
use lib.IntN.{zero-*ℤ, *ℤ_comm}
use Rattle.std.proofs.lemmas.Int.{clamps, unsigned_abs-mul}
use borrow.Author.Differences.{up, down, ints, same_out, lt_out, le_out, same_in, below_in, at_most_in, sum_is_lem, neg_is, product_is}

-- integers for `omega`, with a product as an unknown; least and greatest too
pub ruleset lin = (same_out, lt_out, le_out, same_in, below_in, at_most_in, sum_is_lem, neg_is, clamps)

-- a factor of at least 0 keeps an order, and one of at most 0 turns it
pub mono_r : (a b c : ℤ) → pos 0 ≤ℤ c → a ≤ℤ b → (a *ℤ c) ≤ℤ (b *ℤ c)
mono_r a b (pos n) p h = omega (arith, ints, mul-le-mul_right n (le_out a b h))
mono_r a b (negsuc n) p h = absurd p.le

pub anti_r : (a b c : ℤ) → c ≤ℤ pos 0 → a ≤ℤ b → (b *ℤ c) ≤ℤ (a *ℤ c)
anti_r a b (pos zero) p h = omega (arith, ints)
anti_r a b (pos (suc n)) p h = absurd (omega (arith, ints))
anti_r a b (negsuc n) p h = omega (arith, ints, mul-le-mul_right (suc n) (le_out a b h))

product_fst : (a b : ℤ) → up (a *ℤ b) ≡ up a * up b + down a * down b
product_fst a b = (product_is a b).0

product_snd : (a b : ℤ) → down (a *ℤ b) ≡ up a * down b + down a * up b
product_snd a b = (product_is a b).1

pub times_add : (c s t : ℤ) → c *ℤ (s +ℤ t) ≡ c *ℤ s +ℤ c *ℤ t
times_add c s t =
    let e = sum_is_lem s t in
    let p = ap (λ x. up c * x) e in
    let q = ap (λ x. down c * x) e in
    omega (arith, ints)

pub times_assoc : (a b c : ℤ) → (a *ℤ b) *ℤ c ≡ a *ℤ (b *ℤ c)
times_assoc a b c = same_in _ _ (simp (product_fst, product_snd, mul-add, add-mul, mul_assoc) (omega arith))

-- the sign of a product
pub pos_pos : (a b : ℤ) → pos 0 ≤ℤ a → pos 0 ≤ℤ b → pos 0 ≤ℤ (a *ℤ b)
pos_pos a b p q = omega (arith, lin, mono_r (pos 0) a b q p, zero-*ℤ b)

pub pos_neg : (a b : ℤ) → pos 0 ≤ℤ a → b ≤ℤ pos 0 → (a *ℤ b) ≤ℤ pos 0
pos_neg a b p q = omega (arith, lin, anti_r (pos 0) a b q p, zero-*ℤ b)

pub neg_pos : (a b : ℤ) → a ≤ℤ pos 0 → pos 0 ≤ℤ b → (a *ℤ b) ≤ℤ pos 0
neg_pos a b p q = omega (arith, lin, mono_r a (pos 0) b q p, zero-*ℤ b)

-- the size of a product
pub product_size : (a b : ℤ) (m n : ℕ) → nat_abs a ≤ m → nat_abs b ≤ n → nat_abs (a *ℤ b) ≤ m * n
product_size a b m n p q = omega (arith, unsigned_abs-mul a b, mul-le-mul p q)

neg_up : (a : ℤ) → up (neg_ℤ a) ≡ down a
neg_up a = (neg_is a).0

neg_down : (a : ℤ) → down (neg_ℤ a) ≡ up a
neg_down a = (neg_is a).1

pub times_neg : (c s : ℤ) → c *ℤ neg_ℤ s ≡ neg_ℤ (c *ℤ s)
times_neg c s = grind (arith, ints)

pub neg_times : (c s : ℤ) → neg_ℤ c *ℤ s ≡ neg_ℤ (c *ℤ s)
neg_times c s = grind (arith, ints)

pub add_times : (s t c : ℤ) → (s +ℤ t) *ℤ c ≡ s *ℤ c +ℤ t *ℤ c
add_times s t c = omega (arith, lin, times_add c s t, *ℤ_comm (s +ℤ t) c, *ℤ_comm s c, *ℤ_comm t c)

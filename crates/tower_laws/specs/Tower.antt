-- The binary tower fields as numbers.
-- An element of level i is a number below 2 ^ (2 ^ i), and the sum of two elements is `bit_xor`.
-- Source: Diamond and Posen, ePrint 2023/1784, the section on binary towers; docs/LAWS.md, "tower_laws: the field".
use Rattle.std.specs.Prelude.{ℕ, zero, suc, ◌+◌, ◌*◌, ◌/◌, ◌%◌, ◌^◌, ◌<◌, ltb, true, false, max, bit_xor}

-- how many elements level i has
abbrev pub size : ℕ → ℕ
size i = 2 ^ (2 ^ i)

-- a is an element of level i
abbrev pub Fits : ℕ → ℕ → Type 0
Fits i a = a < 2 ^ (2 ^ i)

-- the low half of an element of level i + 1, an element of level i
abbrev pub low : ℕ → ℕ → ℕ
low i a = a % 2 ^ (2 ^ i)

-- the high half of an element of level i + 1, an element of level i
abbrev pub high : ℕ → ℕ → ℕ
high i a = a / 2 ^ (2 ^ i) % 2 ^ (2 ^ i)

-- the element of level i + 1 whose halves are b, the high one, and a
abbrev pub join : ℕ → ℕ → ℕ → ℕ
join i b a = b * 2 ^ (2 ^ i) + a

-- the last generator of level i, X with X² = 1 + X · (the last generator of level i - 1)
unfoldable pub generator : ℕ → ℕ
generator zero = 1
generator (suc i) = 2 ^ (2 ^ i)

-- the product at level i, of the low 2 ^ i bits of each number
unfoldable pub product : ℕ → ℕ → ℕ → ℕ
product zero a b = (a % 2) * (b % 2)
product (suc i) a b =
    join i
    (bit_xor (bit_xor (product i (low i a) (high i b)) (product i (high i a) (low i b))) (product i (product i (high i a) (high i b)) (generator i)))
    (bit_xor (product i (low i a) (low i b)) (product i (high i a) (high i b)))

-- the least level that holds n, sought from level i on for d steps
unfoldable pub level_from : ℕ → ℕ → ℕ → ℕ
level_from zero i n = i
level_from (suc d) i n = elim (ltb n (2 ^ (2 ^ i))) [ true ↦ i | false ↦ level_from d (suc i) n ]

-- the least level that holds n
unfoldable pub level : ℕ → ℕ
level n = level_from n 0 n

-- the product of two numbers, at the least level that holds both
unfoldable pub mul : ℕ → ℕ → ℕ
mul a b = product (level (max a b)) a b

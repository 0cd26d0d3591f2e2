-- What a literal says.
--   number      n for switch n on, -n for switch n off
--   opposite    the literal that says the contrary
--   same        two literals say the same
--   no_switch   the number is that of no switch
--   no_literal  the number is that of no literal
use Rattle.std.specs.Prelude.{ℕ, ◌+◌, Bool, cond, not, ◌&&◌, ◌||◌, ℤ, pos, negsuc, neg_ℤ, ◌==◌, nat_lt}
use Rattle.std.specs.Bool.{beq}
use Rattle.literals.specs.declared.literal.Literal.{Literal}

abbrev pub number : Literal → ℤ
number l = cond l.on (pos l.switch) (neg_ℤ (pos l.switch))

abbrev pub opposite : Literal → Literal
opposite l = record { switch = l.switch; on = not l.on; range = l.range }

abbrev pub same : Literal → Literal → Bool
same l m = l.switch == m.switch && beq l.on m.on

-- switches are numbered 1 to 64
abbrev pub no_switch : ℕ → Bool
no_switch n = nat_lt n 1 || nat_lt 64 n

-- a number without its sign
abbrev pub size : ℤ → ℕ
size (pos k) = k
size (negsuc k) = k + 1

abbrev pub no_literal : ℤ → Bool
no_literal n = no_switch (size n)

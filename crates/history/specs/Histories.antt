-- Legal histories of one allocation.
use Rattle.std.specs.Prelude.{ℕ, ◌≡◌, ◌^◌, ◌<◌, ◌≤◌, ◌&&◌, nat_lt, nat_le, Bool, true, false, IsTrue, Some, List, [], ◌∷◌, length, map, count_by, All}
use Rattle.std.specs.List.Sorted.{IsStrictlyIncreasing}
use Rattle.history.specs.declared.entry.Entry.{Entry}
use Rattle.history.specs.declared.entry.Request.{Request}
use Rattle.history.specs.declared.entry.Request.TheVariants.{Make, Store, Modify, CmpXchg, CopyOut, CopyIn, Retag, Print, Host, Spawn, Join}
use Rattle.ir_ast.specs.Tokens.{Each}
use Rattle.ir_ast.specs.Words.{modulus, word_bits}
use Rattle.ir_ast.specs.Sizes.{most_size}
use Rattle.history.specs.Objects.{Object, unmade, answer}

-- a request that an allocation can be asked
abbrev pub fits : Request → Bool
fits (Make size place) = nat_le 1 size && nat_le size most_size
fits (Store at ty value carried prov) = nat_lt value (2 ^ word_bits ty)
fits (Modify at width op value prov) = nat_lt value (modulus width)
fits (CmpXchg at width expected value prov) = nat_lt expected (modulus width) && nat_lt value (modulus width)
fits (CopyOut at len prov) = nat_le 1 len && nat_le len 32
fits (CopyIn at piece prov) = nat_le 1 (length piece) && nat_le (length piece) 32
fits (Retag at len kind guard prov) = nat_le 1 len
fits (Print value) = false
fits (Host number first second) = false
fits (Spawn function) = false
fits (Join child) = false
fits request = true

-- the allocation after these entries
abbrev pub replay : Object → List Entry → Object
replay o [] = o
replay o (e ∷ entries) = replay (answer o e.request e.stamp).object entries

-- each reply is the answer after the entries before it
abbrev pub Replies : Object → List Entry → Type 0
Replies o [] = Unit {0}
Replies o (e ∷ entries) = (e.reply ≡ (answer o e.request e.stamp).reply) × Replies (answer o e.request e.stamp).object entries

abbrev pub is_make : Request → Bool
is_make (Make size place) = true
is_make _ = false

-- the step makes an allocation
abbrev pub is_make_step : Entry → Bool
is_make_step entry = is_make entry.request

-- the bytes that a request writes are bytes
abbrev pub HasBytes : Request → Type 0
HasBytes (CopyIn at piece prov) = Each (λ b. b.0 < 256) piece
HasBytes other = Unit {0}

pub record IsHistory (number : ℕ) (entries : List Entry) : Type 0 where
  pub rising : IsStrictlyIncreasing (map (λ e. e.stamp.0) entries)
  pub named : All (λ e. e.alloc ≡ Some (record { 0 = number })) entries
  pub fitting : All (λ e. IsTrue (fits e.request)) entries
  pub once : count_by is_make_step entries ≤ 1
  pub replies : Replies (unmade number) entries

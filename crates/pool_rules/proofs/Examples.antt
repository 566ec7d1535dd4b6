-- Worked examples, computed from the definitions alone.
use Rattle.std.proofs.Common.{◌≡◌, ℕ, List, [], ◌∷◌, ◌++◌, refl, Ok, Err, Some, None, Result}
use Rattle.std.specs.Prelude.{codes}
use Rattle.base_types.specs.declared.lists.Hash32.{Hash32}
use Rattle.base_types.specs.declared.text.Kind.{Kind}
use Rattle.base_types.specs.declared.text.Kind.TheVariants as kind
use Rattle.base_types.specs.declared.text.TextFault.{TextFault}
use Rattle.line_rules.specs.Lines.{line}
use Rattle.pool_rules.specs.Pools.{Transaction, transaction_of, insertion_of}
use Rattle.pool_rules.specs.Snapshots.{Member, IsCollisionFree, sketched_members, colliding, id_of_short, snapshot_sketch, snapshot_sums, snapshot_difference}
use Rattle.pool_rules.specs.Capacity.{capacity, next_q, next_q_failed}
use Rattle.pool_rules.specs.PoolFile.{pool_text, pool_in}
use Rattle.pool_rules.specs.declared.insertion.Inserted.TheVariants as inserted
use Rattle.pool_rules.proofs.Samples.{sketching, pooling, hello_id, abc_id}

-- capacities: of empty sets, of sets of 100 and 120 members, of 2000 and 2010, and the greatest one
least : capacity 0 0 0 ≡ 8
least = refl

estimated : capacity 100 120 8192 ≡ 46
estimated = refl

thousands : capacity 2000 2010 8192 ≡ 511
thousands = refl

greatest : capacity 10000 0 0 ≡ 1024
greatest = refl

-- coefficients
all_differ : next_q 1 1 1 ≡ 65534
all_differ = refl

no_members : next_q 0 0 0 ≡ 0
no_members = refl

rounded_up : next_q 10 20 100 ≡ 6554
rounded_up = refl

after_fallback : next_q_failed 8192 ≡ 16385
after_fallback = refl

after_many : next_q_failed 65534 ≡ 65534
after_many = refl

-- a snapshot of three ids with the short ids 5, 7 and 5: the first and the third are set aside
abbrev other_id : Hash32
other_id = record { 0 = [] }

abbrev member : Hash32 → ℕ → Member
member id short = record { id = id; short = short }

abbrev three : List Member
three = member hello_id 5 ∷ member abc_id 7 ∷ member other_id 5 ∷ []

three_sketched : sketched_members three ≡ member abc_id 7 ∷ []
unfolding pooling
three_sketched = refl

three_aside : colliding three ≡ member hello_id 5 ∷ member other_id 5 ∷ []
unfolding pooling
three_aside = refl

three_sums : snapshot_sketch three 2 ≡ 7 ∷ 0x6b ∷ []
unfolding pooling sketching
three_sums = refl

-- the part from s_3 on extends the sketch of capacity 1
three_extension : snapshot_sums three 1 1 ≡ 0x6b ∷ []
unfolding pooling sketching
three_extension = refl

aside_unfound : id_of_short three 5 ≡ None
unfolding pooling
aside_unfound = refl

single_found : id_of_short three 7 ≡ Some abc_id
unfolding pooling
single_found = refl

-- what two snapshots have sketched and not in common. They are apart: the short id 7 is of one id in both
abbrev two : List Member
two = member abc_id 7 ∷ member hello_id 9 ∷ []

three_gap : snapshot_difference three two ≡ 9 ∷ []
unfolding pooling sketching
three_gap = refl

three_apart : IsCollisionFree three two
unfolding pooling
three_apart = ((λ same. refl, (λ same. absurd (cc), tt)), tt)

-- a pool of one transaction: another one, and the same again
abbrev one : List Transaction
one = transaction_of (codes "hello") ∷ []

another : insertion_of one (codes "abc") ≡ record { pool = transaction_of (codes "hello") ∷ transaction_of (codes "abc") ∷ []; inserted = inserted.New }
unfolding pooling
another = refl

again : insertion_of one (codes "hello") ≡ record { pool = one; inserted = inserted.Present }
unfolding pooling
again = refl

-- its text, both ways
abbrev one_line : List ℕ
one_line = codes "9595c9df90075148eb06860365df33584b75bff782a510c6cd4883a419833d50 68656c6c6f"

one_text : pool_text one ≡ line (codes "pool 2 1") ++ line one_line
unfolding pooling
one_text = refl

one_read : pool_in (line (codes "pool 2 1") ++ line one_line) ≡ Ok one
unfolding pooling
one_read = refl

empty_text : pool_text [] ≡ line (codes "pool 2 0")
unfolding pooling
empty_text = refl

empty_read : pool_in (codes "pool 2 0") ≡ Ok []
unfolding pooling
empty_read = refl

-- texts of form 1, without a heading
one_read_bare : pool_in (line one_line) ≡ Ok one
unfolding pooling
one_read_bare = refl

empty_read_bare : pool_in [] ≡ Ok []
unfolding pooling
empty_read_bare = refl

-- empty lines count in line numbers alone, and a line may end with CR and LF
with_returns : pool_in (10 ∷ codes "pool 2 1" ++ 13 ∷ 10 ∷ 10 ∷ one_line ++ 13 ∷ 10 ∷ []) ≡ Ok one
unfolding pooling
with_returns = refl

-- the faults of a heading: no other form, no zero in front, nothing behind the number, no more than a pool may have, and
-- the line's own number
abbrev bad : ℕ → Kind → Result (List Transaction) TextFault
bad number k = Err (record { place = number; kind = k })

other_form : pool_in (codes "pool 3 0") ≡ bad 1 kind.Form
unfolding pooling
other_form = refl

zero_in_front : pool_in (line (codes "pool 2 01") ++ line one_line) ≡ bad 1 kind.Form
unfolding pooling
zero_in_front = refl

space_behind : pool_in (line (codes "pool 2 0 ")) ≡ bad 1 kind.Form
unfolding pooling
space_behind = refl

no_count : pool_in (10 ∷ line (codes "pool ")) ≡ bad 2 kind.Form
unfolding pooling
no_count = refl

too_large : pool_in (codes "pool 2 50001") ≡ bad 1 kind.Form
unfolding pooling
too_large = refl

-- more lines, or fewer, than the heading tells: before the lines are judged, and the place is their number
fewer : pool_in (line (codes "pool 2 2") ++ line one_line) ≡ bad 1 kind.LineCount
unfolding pooling
fewer = refl

more : pool_in (line (codes "pool 2 1") ++ 10 ∷ line (codes "x") ++ line one_line) ≡ bad 2 kind.LineCount
unfolding pooling
more = refl

largest : pool_in (codes "pool 2 50000") ≡ bad 0 kind.LineCount
unfolding pooling
largest = refl

-- a heading is the first line that isn't empty, and no other
second : pool_in (line one_line ++ line (codes "pool 2 1")) ≡ bad 2 kind.Form
unfolding pooling
second = refl

twice_headed : pool_in (line (codes "pool 2 1") ++ line (codes "pool 2 0")) ≡ bad 2 kind.Form
unfolding pooling
twice_headed = refl

-- the faults of lines

twice : pool_in (one_line ++ 10 ∷ one_line) ≡ bad 2 kind.Repeated
unfolding pooling
twice = refl

twice_behind : pool_in (line (codes "pool 2 2") ++ line one_line ++ line one_line) ≡ bad 3 kind.Repeated
unfolding pooling
twice_behind = refl

mismatched : pool_in (codes "9595c9df90075148eb06860365df33584b75bff782a510c6cd4883a419833d50 616263") ≡ bad 1 (kind.IdMismatch hello_id abc_id)
unfolding pooling
mismatched = refl

-- 65 bytes; and 66 of which the 65th is no space
too_short : pool_in (codes "9595c9df90075148eb06860365df33584b75bff782a510c6cd4883a419833d50 ") ≡ bad 1 kind.Form
unfolding pooling
too_short = refl

no_space : pool_in (codes "9595c9df90075148eb06860365df33584b75bff782a510c6cd4883a419833d50:6") ≡ bad 1 kind.Form
unfolding pooling
no_space = refl

-- a bad digit of the id comes before an odd number of digits, and that before a bad digit of the transaction
bad_id : pool_in (10 ∷ codes "9595c9df90075148eb06860365df33584b75bff782a510c6cd4883a419833d5x 6") ≡ bad 2 kind.BadDigit
unfolding pooling
bad_id = refl

odd : pool_in (codes "9595c9df90075148eb06860365df33584b75bff782a510c6cd4883a419833d50 x") ≡ bad 1 kind.OddDigits
unfolding pooling
odd = refl

bad_tx : pool_in (codes "9595c9df90075148eb06860365df33584b75bff782a510c6cd4883a419833d50 6x") ≡ bad 1 kind.BadDigit
unfolding pooling
bad_tx = refl

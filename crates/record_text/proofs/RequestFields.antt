-- Words in a row: requests.
use Rattle.std.proofs.Common.{◌≡◌, ℕ, List, [], ◌∷◌, ◌++◌, Option, Some, None, refl, ap, ◌∙◌}
use Rattle.std.specs.Prelude.{codes}
use Rattle.std.specs.Fmt.{decimal}
use Rattle.bsan_ids.specs.declared.numbers.AllocNo.{AllocNo}
use Rattle.ir_ast.specs.Keywords.{width_word, type_word, kind_word, modify_word}
use Rattle.target_code.specs.Words.{guard_word, place_word}
use Rattle.history.specs.declared.entry.Request.TheVariants as request
use Rattle.record_text.specs.declared.keys.RequestKey.{RequestKey}
use Rattle.record_text.specs.declared.keys.RequestKey.TheVariants as request_key
use Rattle.record_text.specs.Words.{flag_word, prov_word, piece_word, request_words}
use Rattle.record_text.specs.Ranges.{Fits8, Fits32, Fits64, ProvFits, PieceFits, RequestFits}
use Rattle.record_text.specs.Reading.{Words, one, both, lookup, number64, number32, number8}
use Rattle.record_text.specs.Tables.{types, widths, modifiers, kinds, guards, places, flags, request_key_word, request_keys}
use Rattle.record_text.specs.Parts.{Asked, load_of, load_at, store_of, store_at, modify_of, modify_at, exchange_of, exchange_at, out_of, out_at, into_of, into_at, retag_of, retag_at, protector_of, protector_at, free_of, free_at, make_of, make_at, print_of, print_at, host_of, host_at, spawn_of, spawn_at, join_of, join_at, request_tail, request_at}
use Rattle.record_text.specs.Parts.{prov_in, piece_in}
use Rattle.record_text.proofs.Codecs.{IsField, AllSeen, lookup_takes, both_fields, tail_again, tail_takes, chosen_takes}
use Rattle.record_text.proofs.WordFields.{f64, f32, f8, fprov, fpiece, ftype, fwidth, fmodify, fkind, fguard, fplace, fflag}

load_parts : IsField (λ x. Fits32 x.0 × (Fits32 x.1.0 × (Unit {0} × ProvFits x.1.1.1))) (λ x. (decimal x.0 ∷ []) ++ ((decimal x.1.0 ∷ []) ++ ((type_word x.1.1.0 ∷ []) ++ ((prov_word x.1.1.1 ∷ []))))) (both (one number32) (both (one number32) (both (one (lookup types)) (one prov_in))))
load_parts = both_fields f32 (both_fields f32 (both_fields ftype fprov))

store_parts : IsField (λ x. Fits32 x.0 × (Fits32 x.1.0 × (Unit {0} × (Fits64 x.1.1.1.0 × (ProvFits x.1.1.1.1.0 × ProvFits x.1.1.1.1.1))))) (λ x. (decimal x.0 ∷ []) ++ ((decimal x.1.0 ∷ []) ++ ((type_word x.1.1.0 ∷ []) ++ ((decimal x.1.1.1.0 ∷ []) ++ ((prov_word x.1.1.1.1.0 ∷ []) ++ ((prov_word x.1.1.1.1.1 ∷ []))))))) (both (one number32) (both (one number32) (both (one (lookup types)) (both (one number64) (both (one prov_in) (one prov_in))))))
store_parts = both_fields f32 (both_fields f32 (both_fields ftype (both_fields f64 (both_fields fprov fprov))))

modify_parts : IsField (λ x. Fits32 x.0 × (Fits32 x.1.0 × (Unit {0} × (Unit {0} × (Fits64 x.1.1.1.1.0 × ProvFits x.1.1.1.1.1))))) (λ x. (decimal x.0 ∷ []) ++ ((decimal x.1.0 ∷ []) ++ ((width_word x.1.1.0 ∷ []) ++ ((modify_word x.1.1.1.0 ∷ []) ++ ((decimal x.1.1.1.1.0 ∷ []) ++ ((prov_word x.1.1.1.1.1 ∷ []))))))) (both (one number32) (both (one number32) (both (one (lookup widths)) (both (one (lookup modifiers)) (both (one number64) (one prov_in))))))
modify_parts = both_fields f32 (both_fields f32 (both_fields fwidth (both_fields fmodify (both_fields f64 fprov))))

exchange_parts : IsField (λ x. Fits32 x.0 × (Fits32 x.1.0 × (Unit {0} × (Fits64 x.1.1.1.0 × (Fits64 x.1.1.1.1.0 × ProvFits x.1.1.1.1.1))))) (λ x. (decimal x.0 ∷ []) ++ ((decimal x.1.0 ∷ []) ++ ((width_word x.1.1.0 ∷ []) ++ ((decimal x.1.1.1.0 ∷ []) ++ ((decimal x.1.1.1.1.0 ∷ []) ++ ((prov_word x.1.1.1.1.1 ∷ []))))))) (both (one number32) (both (one number32) (both (one (lookup widths)) (both (one number64) (both (one number64) (one prov_in))))))
exchange_parts = both_fields f32 (both_fields f32 (both_fields fwidth (both_fields f64 (both_fields f64 fprov))))

out_parts : IsField (λ x. Fits32 x.0 × (Fits32 x.1.0 × (Fits8 x.1.1.0 × ProvFits x.1.1.1))) (λ x. (decimal x.0 ∷ []) ++ ((decimal x.1.0 ∷ []) ++ ((decimal x.1.1.0 ∷ []) ++ ((prov_word x.1.1.1 ∷ []))))) (both (one number32) (both (one number32) (both (one number8) (one prov_in))))
out_parts = both_fields f32 (both_fields f32 (both_fields f8 fprov))

into_parts : IsField (λ x. Fits32 x.0 × (Fits32 x.1.0 × (PieceFits x.1.1.0 × ProvFits x.1.1.1))) (λ x. (decimal x.0 ∷ []) ++ ((decimal x.1.0 ∷ []) ++ ((piece_word x.1.1.0 ∷ []) ++ ((prov_word x.1.1.1 ∷ []))))) (both (one number32) (both (one number32) (both (one piece_in) (one prov_in))))
into_parts = both_fields f32 (both_fields f32 (both_fields fpiece fprov))

retag_parts : IsField (λ x. Fits32 x.0 × (Fits32 x.1.0 × (Fits32 x.1.1.0 × (Unit {0} × (Unit {0} × ProvFits x.1.1.1.1.1))))) (λ x. (decimal x.0 ∷ []) ++ ((decimal x.1.0 ∷ []) ++ ((decimal x.1.1.0 ∷ []) ++ ((kind_word x.1.1.1.0 ∷ []) ++ ((guard_word x.1.1.1.1.0 ∷ []) ++ ((prov_word x.1.1.1.1.1 ∷ []))))))) (both (one number32) (both (one number32) (both (one number32) (both (one (lookup kinds)) (both (one (lookup guards)) (one prov_in))))))
retag_parts = both_fields f32 (both_fields f32 (both_fields f32 (both_fields fkind (both_fields fguard fprov))))

protector_parts : IsField (λ x. Fits32 x.0 × Fits64 x.1) (λ x. (decimal x.0 ∷ []) ++ ((decimal x.1 ∷ []))) (both (one number32) (one number64))
protector_parts = both_fields f32 f64

free_parts : IsField (λ x. Fits32 x.0 × (Fits32 x.1.0 × (Unit {0} × ProvFits x.1.1.1))) (λ x. (decimal x.0 ∷ []) ++ ((decimal x.1.0 ∷ []) ++ ((flag_word x.1.1.0 ∷ []) ++ ((prov_word x.1.1.1 ∷ []))))) (both (one number32) (both (one number32) (both (one (lookup flags)) (one prov_in))))
free_parts = both_fields f32 (both_fields f32 (both_fields fflag fprov))

make_parts : IsField (λ x. Fits32 x.0 × Unit {0}) (λ x. (decimal x.0 ∷ []) ++ ((place_word x.1 ∷ []))) (both (one number32) (one (lookup places)))
make_parts = both_fields f32 fplace

print_parts : IsField (λ x. Fits64 x) (λ x. (decimal x ∷ [])) (one number64)
print_parts = f64

host_parts : IsField (λ x. Fits32 x.0 × (Fits64 x.1.0 × Fits64 x.1.1)) (λ x. (decimal x.0 ∷ []) ++ ((decimal x.1.0 ∷ []) ++ ((decimal x.1.1 ∷ [])))) (both (one number32) (both (one number64) (one number64)))
host_parts = both_fields f32 (both_fields f64 f64)

spawn_parts : IsField (λ x. Fits32 x) (λ x. (decimal x ∷ [])) (one number32)
spawn_parts = f32

join_parts : IsField (λ x. Fits32 x) (λ x. (decimal x ∷ [])) (one number32)
join_parts = f32

tail_takes_each : (k : RequestKey) (ws : Words) (a : Asked) (rest : Words) → request_tail k ws ≡ Some (a, rest) → (request_key_word k ∷ ws ≡ request_words a.0 a.1 ++ rest) × RequestFits a
unfolding load_at store_at modify_at exchange_at out_at into_at retag_at protector_at free_at make_at print_at host_at spawn_at join_at
tail_takes_each request_key.Load = tail_takes load_parts load_of RequestFits (λ q. request_words q.0 q.1) (codes "load") (λ a. refl) (λ a h. (h.0, (h.1.0, h.1.1.1)))
tail_takes_each request_key.Store = tail_takes store_parts store_of RequestFits (λ q. request_words q.0 q.1) (codes "store") (λ a. refl) (λ a h. (h.0, (h.1.0, (h.1.1.1.0, (h.1.1.1.1.0, h.1.1.1.1.1)))))
tail_takes_each request_key.Modify = tail_takes modify_parts modify_of RequestFits (λ q. request_words q.0 q.1) (codes "rmw") (λ a. refl) (λ a h. (h.0, (h.1.0, (h.1.1.1.1.0, h.1.1.1.1.1))))
tail_takes_each request_key.CmpXchg = tail_takes exchange_parts exchange_of RequestFits (λ q. request_words q.0 q.1) (codes "cmpxchg") (λ a. refl) (λ a h. (h.0, (h.1.0, (h.1.1.1.0, (h.1.1.1.1.0, h.1.1.1.1.1)))))
tail_takes_each request_key.CopyOut = tail_takes out_parts out_of RequestFits (λ q. request_words q.0 q.1) (codes "out") (λ a. refl) (λ a h. (h.0, (h.1.0, (h.1.1.0, h.1.1.1))))
tail_takes_each request_key.CopyIn = tail_takes into_parts into_of RequestFits (λ q. request_words q.0 q.1) (codes "in") (λ a. refl) (λ a h. (h.0, (h.1.0, (h.1.1.0, h.1.1.1))))
tail_takes_each request_key.Retag = tail_takes retag_parts retag_of RequestFits (λ q. request_words q.0 q.1) (codes "retag") (λ a. refl) (λ a h. (h.0, (h.1.0, (h.1.1.0, h.1.1.1.1.1))))
tail_takes_each request_key.EndProtector = tail_takes protector_parts protector_of RequestFits (λ q. request_words q.0 q.1) (codes "endprotector") (λ a. refl) (λ a h. (h.0, h.1))
tail_takes_each request_key.Free = tail_takes free_parts free_of RequestFits (λ q. request_words q.0 q.1) (codes "free") (λ a. refl) (λ a h. (h.0, (h.1.0, h.1.1.1)))
tail_takes_each request_key.Make = tail_takes make_parts make_of RequestFits (λ q. request_words q.0 q.1) (codes "make") (λ a. refl) (λ a h. (refl, h.0))
tail_takes_each request_key.Print = tail_takes print_parts print_of RequestFits (λ q. request_words q.0 q.1) (codes "print") (λ a. refl) (λ a h. (refl, h))
tail_takes_each request_key.Host = tail_takes host_parts host_of RequestFits (λ q. request_words q.0 q.1) (codes "host") (λ a. refl) (λ a h. (refl, (h.0, (h.1.0, h.1.1))))
tail_takes_each request_key.Spawn = tail_takes spawn_parts spawn_of RequestFits (λ q. request_words q.0 q.1) (codes "spawn") (λ a. refl) (λ a h. (refl, h))
tail_takes_each request_key.Join = tail_takes join_parts join_of RequestFits (λ q. request_words q.0 q.1) (codes "join") (λ a. refl) (λ a h. (refl, h))

request_takes : (ws : Words) (a : Asked) (rest : Words) → request_at ws ≡ Some (a, rest) → (ws ≡ request_words a.0 a.1 ++ rest) × RequestFits a
unfolding request_at
request_takes ws a rest e =
    let c = chosen_takes request_keys request_tail ws (a, rest) e in
    let t = tail_takes_each c.key c.more a rest c.tells in
    (c.whole ∙ ap (λ (w : List ℕ). w ∷ c.more) (lookup_takes request_key_word (request_key.Load ∷ request_key.Store ∷ request_key.Modify ∷ request_key.CmpXchg ∷ request_key.CopyOut ∷ request_key.CopyIn ∷ request_key.Retag ∷ request_key.EndProtector ∷ request_key.Free ∷ request_key.Make ∷ request_key.Print ∷ request_key.Host ∷ request_key.Spawn ∷ request_key.Join ∷ []) c.word c.key c.found) ∙ t.0, t.1)

request_again : (a : Asked) (rest : Words) → RequestFits a → request_at (request_words a.0 a.1 ++ rest) ≡ Some (a, rest)
unfolding request_at load_at store_at modify_at exchange_at out_at into_at retag_at protector_at free_at make_at print_at host_at spawn_at join_at
request_again (None, request.Load at ty prov) rest h = absurd h.0
request_again (Some n, request.Load at ty prov) rest h = tail_again load_parts load_of (n.0, (at, (ty, prov))) rest (h.0, (h.1.0, (tt, h.1.1)))
request_again (None, request.Store at ty value carried prov) rest h = absurd h.0
request_again (Some n, request.Store at ty value carried prov) rest h = tail_again store_parts store_of (n.0, (at, (ty, (value, (carried, prov))))) rest (h.0, (h.1.0, (tt, (h.1.1.0, (h.1.1.1.0, h.1.1.1.1)))))
request_again (None, request.Modify at width op value prov) rest h = absurd h.0
request_again (Some n, request.Modify at width op value prov) rest h = tail_again modify_parts modify_of (n.0, (at, (width, (op, (value, prov))))) rest (h.0, (h.1.0, (tt, (tt, (h.1.1.0, h.1.1.1)))))
request_again (None, request.CmpXchg at width expected value prov) rest h = absurd h.0
request_again (Some n, request.CmpXchg at width expected value prov) rest h = tail_again exchange_parts exchange_of (n.0, (at, (width, (expected, (value, prov))))) rest (h.0, (h.1.0, (tt, (h.1.1.0, (h.1.1.1.0, h.1.1.1.1)))))
request_again (None, request.CopyOut at len prov) rest h = absurd h.0
request_again (Some n, request.CopyOut at len prov) rest h = tail_again out_parts out_of (n.0, (at, (len, prov))) rest (h.0, (h.1.0, (h.1.1.0, h.1.1.1)))
request_again (None, request.CopyIn at piece prov) rest h = absurd h.0
request_again (Some n, request.CopyIn at piece prov) rest h = tail_again into_parts into_of (n.0, (at, (piece, prov))) rest (h.0, (h.1.0, (h.1.1.0, h.1.1.1)))
request_again (None, request.Retag at len kind guard prov) rest h = absurd h.0
request_again (Some n, request.Retag at len kind guard prov) rest h = tail_again retag_parts retag_of (n.0, (at, (len, (kind, (guard, prov))))) rest (h.0, (h.1.0, (h.1.1.0, (tt, (tt, h.1.1.1)))))
request_again (None, request.EndProtector tag) rest h = absurd h.0
request_again (Some n, request.EndProtector tag) rest h = tail_again protector_parts protector_of (n.0, tag.0) rest (h.0, h.1)
request_again (None, request.Free at stack prov) rest h = absurd h.0
request_again (Some n, request.Free at stack prov) rest h = tail_again free_parts free_of (n.0, (at, (stack, prov))) rest (h.0, (h.1.0, (tt, h.1.1)))
request_again (Some n, request.Make size place) rest h = absurd (let e : ◌≡◌ {A = Option AllocNo} (Some n) None = h.0 in cc)
request_again (None, request.Make size place) rest h = tail_again make_parts make_of (size, place) rest (h.1, tt)
request_again (Some n, request.Print value) rest h = absurd (let e : ◌≡◌ {A = Option AllocNo} (Some n) None = h.0 in cc)
request_again (None, request.Print value) rest h = tail_again print_parts print_of value rest h.1
request_again (Some n, request.Host number first second) rest h = absurd (let e : ◌≡◌ {A = Option AllocNo} (Some n) None = h.0 in cc)
request_again (None, request.Host number first second) rest h = tail_again host_parts host_of (number, (first, second)) rest (h.1.0, (h.1.1.0, h.1.1.1))
request_again (Some n, request.Spawn function) rest h = absurd (let e : ◌≡◌ {A = Option AllocNo} (Some n) None = h.0 in cc)
request_again (None, request.Spawn function) rest h = tail_again spawn_parts spawn_of function rest h.1
request_again (Some n, request.Join child) rest h = absurd (let e : ◌≡◌ {A = Option AllocNo} (Some n) None = h.0 in cc)
request_again (None, request.Join child) rest h = tail_again join_parts join_of child.0 rest h.1

request_seen : (a : Asked) → RequestFits a → AllSeen (request_words a.0 a.1)
request_seen (None, request.Load at ty prov) h = absurd h.0
request_seen (Some n, request.Load at ty prov) h = (refl, load_parts.seen (n.0, (at, (ty, prov))) (h.0, (h.1.0, (tt, h.1.1))))
request_seen (None, request.Store at ty value carried prov) h = absurd h.0
request_seen (Some n, request.Store at ty value carried prov) h = (refl, store_parts.seen (n.0, (at, (ty, (value, (carried, prov))))) (h.0, (h.1.0, (tt, (h.1.1.0, (h.1.1.1.0, h.1.1.1.1))))))
request_seen (None, request.Modify at width op value prov) h = absurd h.0
request_seen (Some n, request.Modify at width op value prov) h = (refl, modify_parts.seen (n.0, (at, (width, (op, (value, prov))))) (h.0, (h.1.0, (tt, (tt, (h.1.1.0, h.1.1.1))))))
request_seen (None, request.CmpXchg at width expected value prov) h = absurd h.0
request_seen (Some n, request.CmpXchg at width expected value prov) h = (refl, exchange_parts.seen (n.0, (at, (width, (expected, (value, prov))))) (h.0, (h.1.0, (tt, (h.1.1.0, (h.1.1.1.0, h.1.1.1.1))))))
request_seen (None, request.CopyOut at len prov) h = absurd h.0
request_seen (Some n, request.CopyOut at len prov) h = (refl, out_parts.seen (n.0, (at, (len, prov))) (h.0, (h.1.0, (h.1.1.0, h.1.1.1))))
request_seen (None, request.CopyIn at piece prov) h = absurd h.0
request_seen (Some n, request.CopyIn at piece prov) h = (refl, into_parts.seen (n.0, (at, (piece, prov))) (h.0, (h.1.0, (h.1.1.0, h.1.1.1))))
request_seen (None, request.Retag at len kind guard prov) h = absurd h.0
request_seen (Some n, request.Retag at len kind guard prov) h = (refl, retag_parts.seen (n.0, (at, (len, (kind, (guard, prov))))) (h.0, (h.1.0, (h.1.1.0, (tt, (tt, h.1.1.1))))))
request_seen (None, request.EndProtector tag) h = absurd h.0
request_seen (Some n, request.EndProtector tag) h = (refl, protector_parts.seen (n.0, tag.0) (h.0, h.1))
request_seen (None, request.Free at stack prov) h = absurd h.0
request_seen (Some n, request.Free at stack prov) h = (refl, free_parts.seen (n.0, (at, (stack, prov))) (h.0, (h.1.0, (tt, h.1.1))))
request_seen (alloc, request.Make size place) h = (refl, make_parts.seen (size, place) (h.1, tt))
request_seen (alloc, request.Print value) h = (refl, print_parts.seen value h.1)
request_seen (alloc, request.Host number first second) h = (refl, host_parts.seen (number, (first, second)) (h.1.0, (h.1.1.0, h.1.1.1)))
request_seen (alloc, request.Spawn function) h = (refl, spawn_parts.seen function h.1)
request_seen (alloc, request.Join child) h = (refl, join_parts.seen child.0 h.1)

pub request_field : IsField RequestFits (λ a. request_words a.0 a.1) request_at
request_field = record { again = request_again; takes = request_takes; seen = request_seen }

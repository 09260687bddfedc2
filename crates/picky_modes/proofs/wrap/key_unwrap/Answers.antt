use Rattle.std.proofs.Common.{◌≡◌, ◌∙◌, IsTrue, ap, arith, length, sym, take}
use Rattle.picky_aes.specs.Cipher.{cipher}
use Rattle.picky_modes.specs.KeyWrap.{initial_value}
use Rattle.picky_modes.proofs.Registers.{KeepsBlocks}
use Rattle.picky_modes.proofs.Wrapped.{IsOpened, key-found, key-only, key-read, key-same, opened-at, written-over}
use Rattle.picky_modes.proofs.wrap.key_unwrap.Goals as goal

pub returns-then-not-equal_bytes-clause-every : goal.returns-then-not-equal_bytes-clause-every
returns-then-not-equal_bytes-clause-every c =
    let before = c.unwrap_registers.new.registers in
    let sealed : c.as_mut_slice.result.now ≡ c.args.wrapped.now = c.as_mut_slice.ensures.value ∙ c.in_ok-registers.ensures.items in
    let keeps : KeepsBlocks (cipher c.args.aes.now) = λ y h. let k = c.encrypts_to_blocks.ensures.block y (record { size = h.size; bytes = h.bytes }) in record { size = k.size; bytes = k.bytes } in
    let opened : IsOpened (cipher c.args.aes.now) c.args.wrapped.now before =
    opened-at (cipher c.args.aes.now) c.args.wrapped.now c.as_mut_slice.result.now before sealed c.requires.whole c.requires.low c.unwrap_registers.auto.registers c.unwrap_registers.ensures.back c.unwrap_registers.ensures.alone in
    let size : length before ≡ length c.in_ok-registers.registers.items = c.unwrap_registers.auto.registers ∙ ap length c.as_mut_slice.ensures.value in
    let read : c.deref.result.now ≡ before = c.deref.ensures.value ∙ written-over _ before _ c.in_ok-registers.registers.ok.0 size in
    λ plain bytes made.
    let joined = key-only (cipher c.args.aes.now) c.args.wrapped.now before plain keeps opened bytes made in
    let front : take 8 c.deref.result.now ≡ initial_value = ap (take 8) (read ∙ sym joined) in
    let passes : IsTrue c.equal_bytes.result = c.equal_bytes.ensures.1 front in
    grind (arith, passes, c.if-not-equal_bytes.true)

pub returns-clause-key : goal.returns-clause-key
returns-clause-key c =
    let before = c.unwrap_registers.new.registers in
    let sealed : c.as_mut_slice.result.now ≡ c.args.wrapped.now = c.as_mut_slice.ensures.value ∙ c.in_ok-registers.ensures.items in
    let opened : IsOpened (cipher c.args.aes.now) c.args.wrapped.now before =
    opened-at (cipher c.args.aes.now) c.args.wrapped.now c.as_mut_slice.result.now before sealed c.requires.whole c.requires.low c.unwrap_registers.auto.registers c.unwrap_registers.ensures.back c.unwrap_registers.ensures.alone in
    let size : length before ≡ length c.in_ok-registers.registers.items = c.unwrap_registers.auto.registers ∙ ap length c.as_mut_slice.ensures.value in
    let read : c.deref.result.now ≡ before = c.deref.ensures.value ∙ written-over _ before _ c.in_ok-registers.registers.ok.0 size in
    let read_again : c.deref-2.result.now ≡ before = c.deref-2.ensures.value ∙ written-over _ before _ c.in_ok-registers.registers.ok.0 size in
    let passed : IsTrue c.equal_bytes.result = grind (arith, c.if-not-equal_bytes.false) in
    let check : take 8 before ≡ initial_value = sym (ap (take 8) read) ∙ c.equal_bytes.ensures.0 passed in
    key-found (cipher c.args.aes.now) c.args.wrapped.now before c.in_ok-from_slice.field-0.items opened check (key-read _ c.deref-2.result.now before read_again c.in_ok-from_slice.ensures.items)

pub returns-clause-every : goal.returns-clause-every
returns-clause-every c =
    let before = c.unwrap_registers.new.registers in
    let sealed : c.as_mut_slice.result.now ≡ c.args.wrapped.now = c.as_mut_slice.ensures.value ∙ c.in_ok-registers.ensures.items in
    let keeps : KeepsBlocks (cipher c.args.aes.now) = λ y h. let k = c.encrypts_to_blocks.ensures.block y (record { size = h.size; bytes = h.bytes }) in record { size = k.size; bytes = k.bytes } in
    let opened : IsOpened (cipher c.args.aes.now) c.args.wrapped.now before =
    opened-at (cipher c.args.aes.now) c.args.wrapped.now c.as_mut_slice.result.now before sealed c.requires.whole c.requires.low c.unwrap_registers.auto.registers c.unwrap_registers.ensures.back c.unwrap_registers.ensures.alone in
    let size : length before ≡ length c.in_ok-registers.registers.items = c.unwrap_registers.auto.registers ∙ ap length c.as_mut_slice.ensures.value in
    let read_again : c.deref-2.result.now ≡ before = c.deref-2.ensures.value ∙ written-over _ before _ c.in_ok-registers.registers.ok.0 size in
    λ plain bytes made.
    key-same plain before _ (key-read _ c.deref-2.result.now before read_again c.in_ok-from_slice.ensures.items) (key-only (cipher c.args.aes.now) c.args.wrapped.now before plain keeps opened bytes made)

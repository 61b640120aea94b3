mod MaskLaws
mod Typed

mod Packing
mod PinsLaws
